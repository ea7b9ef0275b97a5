pub mod Walk
pub mod Inner
pub mod Kept
pub mod Rising
pub mod Ended
pub mod Rungs
pub mod RisingRungs
pub mod Between
