pub mod FileDisk
