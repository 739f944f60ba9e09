mod OpenedImages
mod ToldBytes
mod RunLaws
mod WaitingStretches
