pub mod FaultFree
