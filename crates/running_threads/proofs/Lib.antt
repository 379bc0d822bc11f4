mod Leaves
mod Lists
mod Trees
mod Cores
mod Runs
mod Ends
mod Opened
mod Hands
