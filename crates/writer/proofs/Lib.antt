pub mod Places
pub mod NodeTexts
