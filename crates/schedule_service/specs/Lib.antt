pub mod SiteEvents
pub mod Channels
pub mod Outcomes
pub mod SiteSteps
pub mod Deeds
pub mod Cursors
