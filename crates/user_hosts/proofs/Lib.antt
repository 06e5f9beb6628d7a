pub mod Views
pub mod Shown
pub mod FirstSteps
pub mod Padded
pub mod Places
pub mod MadeLemmas
