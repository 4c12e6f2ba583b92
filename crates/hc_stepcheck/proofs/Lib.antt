mod Knowing
mod Readiness
mod Covering
