pub mod MemoryStream
pub mod MemoryDatagrams
pub mod MemoryDisk
