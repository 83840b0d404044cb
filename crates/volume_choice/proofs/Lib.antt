mod Firsts
mod Least
mod Names
