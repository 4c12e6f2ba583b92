mod Sweep
mod NeedsLaws
mod Smaller
