mod Owned
