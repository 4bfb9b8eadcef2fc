mod Pointing
