-- The checksum's definitions: the polynomial's step and fold, the table, what each public function promises, damage.
pub mod Polynomial
pub mod Table
pub mod Damage
pub mod Statement
