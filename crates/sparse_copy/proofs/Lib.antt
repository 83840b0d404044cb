mod Gaps
mod Walking
mod Zeros
