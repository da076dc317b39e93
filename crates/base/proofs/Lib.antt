pub mod Texts
pub mod Leads
pub mod Entities
pub mod Examples
pub mod KeyExamples
pub mod LeadExamples
pub mod ViewExamples
