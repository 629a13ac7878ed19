pub use Rattle.serde_json.specs.Data
pub mod Versions
pub mod RecordFault
pub mod Values
pub mod JsonNumbers
