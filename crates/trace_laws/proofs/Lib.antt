pub mod EventsLaws
pub mod SettingsLaws
pub mod TraceLaws
