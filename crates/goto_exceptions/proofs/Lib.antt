mod Branched
