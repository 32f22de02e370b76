mod Regions
