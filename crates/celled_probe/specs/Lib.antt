pub mod Probe
pub mod ProbeInner
