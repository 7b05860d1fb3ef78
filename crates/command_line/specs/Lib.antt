pub mod Keys
pub mod Patience
pub mod Printed
