pub mod Worlds
pub mod Faults
pub mod Taking
pub mod Runs
pub mod Sound
pub mod Promises
pub mod Starts
pub mod KeepingWorlds
pub mod Laws
pub mod Fetching
pub mod Events
pub mod steps
-- the definitions of a server and of a client's repository, the two parts of a world
pub use Rattle.ganswer.specs.Servers
pub use Rattle.gclientrepo.specs.Repos
