-- A sparse multiple of the polynomial: the places at which a byte comes back, and what the bytes that left still owe.
pub mod Stages
