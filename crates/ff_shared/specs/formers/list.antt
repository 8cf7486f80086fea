pub mod SharedList
