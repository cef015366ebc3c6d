pub mod Tests
pub mod Missing
pub mod After
pub mod Only
