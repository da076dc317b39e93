pub mod TakenOver
