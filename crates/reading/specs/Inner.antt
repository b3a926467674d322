-- What the contracts of packing cite: what packing a draft gives; fields that are put among the bits of a table.
pub mod Packed
pub mod Packing
