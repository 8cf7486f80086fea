pub mod OwnedList
