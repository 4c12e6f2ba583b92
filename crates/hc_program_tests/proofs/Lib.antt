mod TwoPorts
