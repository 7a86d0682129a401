pub mod Settings
pub mod Load
pub mod WordLaws
pub mod SettingsLaws
pub mod LoadLaws
