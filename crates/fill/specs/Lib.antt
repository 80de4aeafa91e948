-- What each column of the new order is charged.
pub mod Charges
pub mod Opened
