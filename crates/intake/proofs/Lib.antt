mod Fields
mod Fills
mod Scans
mod Strikes
