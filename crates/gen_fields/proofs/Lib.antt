mod Bits
