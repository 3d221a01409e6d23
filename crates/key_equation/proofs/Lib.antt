pub mod KeyEquation
