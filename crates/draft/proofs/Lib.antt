-- In reading order: counts of names among nodes; a draft's names and spans; a draft that holds a model; two
-- answers that say the same; the nodes that are names.
pub mod Leaves
pub mod Holding
pub mod Same
pub mod Named
