pub mod Words
pub mod Udf
pub mod Said
pub mod NewVolume
pub mod Laws
pub mod Torn
