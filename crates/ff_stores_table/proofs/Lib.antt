mod Counted
