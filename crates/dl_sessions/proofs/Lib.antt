mod Lists
mod Closing
