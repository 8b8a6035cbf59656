pub mod PoolParts
