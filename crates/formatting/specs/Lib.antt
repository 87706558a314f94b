pub mod NewVolume
pub mod Beginning
