pub mod RoundTripLaws
pub mod SamePolicyLaws
