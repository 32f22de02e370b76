mod EachFrom
mod Counted
