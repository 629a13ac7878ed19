pub mod RecordReader
pub mod SmallFile
pub mod SymbolFileRecords
pub mod SymbolTextReader
pub mod TextAnswers
