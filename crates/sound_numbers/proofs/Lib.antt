mod Unused
