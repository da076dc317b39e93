pub mod Files
pub mod Migration
