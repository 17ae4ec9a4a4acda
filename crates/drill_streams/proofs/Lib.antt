mod Drawing
mod Parts
mod Written
mod Refuted
