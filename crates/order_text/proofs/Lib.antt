-- The laws behind the proofs of `order_text`.
pub mod Rooms
