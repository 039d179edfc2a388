pub mod Lists
pub mod Forms
pub mod Order
pub mod OwnColumns
pub mod Pivots
