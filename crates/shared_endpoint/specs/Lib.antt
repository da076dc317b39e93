pub mod Token
pub mod History
pub mod Lore
pub mod Mark
pub mod Keys
pub mod Promises
