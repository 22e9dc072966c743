pub mod ByteClasses
