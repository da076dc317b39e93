pub mod Cursors
mod Doing
mod Fates
mod Going
mod Sending
mod Telling
mod OutcomeExamples
mod ChannelExamples
mod StepExamples
mod ConnectionExamples
mod DeedExamples
mod Framing
mod WorkExamples
mod FrameExamples
mod LetterExamples
mod OctetExamples
mod OutboxExamples
