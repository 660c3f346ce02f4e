pub mod Segmented
pub mod SegmentsLeft
