pub mod PlainPackLines
pub mod PlainPackFronts
pub mod PlainPackReading
pub mod PlainPackFeed
pub mod PlainPackWriting
pub mod PlainPackLaw
