pub mod BoundedRun
