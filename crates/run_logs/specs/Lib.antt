pub mod AnimationCorners
pub mod AnimationSamples
pub mod CornerSamples
pub mod DeviceSamples
pub mod Reference
pub mod Samples
pub mod ScrollSamples
