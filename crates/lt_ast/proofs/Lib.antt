pub mod Public
pub mod Lists
pub mod Numbers
