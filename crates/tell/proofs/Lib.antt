-- The sizes of the program's buffers.
mod Sizes
