mod Numbers
mod Spaces
mod Feeds
mod Backs
mod Sheets
mod Fits
