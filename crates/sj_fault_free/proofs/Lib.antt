-- for `fault_free_paths_end_well`, and for crates above
pub mod WithoutFaults
